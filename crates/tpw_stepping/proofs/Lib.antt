mod Naming
