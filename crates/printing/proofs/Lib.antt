pub mod FlattenedListLemmas
