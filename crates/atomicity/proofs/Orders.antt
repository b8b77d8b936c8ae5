-- Lists in the order of tags.
pub mod ItemSortLemmas
pub mod OrderedItemLemmas
