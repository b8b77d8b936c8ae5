pub mod LineWordLemmas
pub mod NoCommandLemmas
pub mod NumberWordLemmas
