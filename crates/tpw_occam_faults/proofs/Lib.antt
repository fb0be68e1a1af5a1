mod OrderLemmas
