-- What quorums share.
pub mod CommonMemberLemmas
pub mod QuorumMeetingLemmas
pub mod ReplyTruthLemmas
