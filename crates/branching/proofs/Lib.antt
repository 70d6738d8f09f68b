pub mod BoxLemmas
