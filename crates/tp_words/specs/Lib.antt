-- What a reader must believe: clauses of public calls cite it.
pub mod Words
pub mod Numbers
