pub mod CallBoundLemmas
pub mod CompletePhaseLemmas
pub mod MailBytesLemmas
pub mod TakenReplyLemmas
