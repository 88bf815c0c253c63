pub mod RemoverLemmas
