pub mod ClapResultLemmas
pub mod CommandArgumentLemmas
pub mod KnownCommandLemmas
pub mod ParsedCommandLemmas
pub mod RequestFaultLemmas
pub mod SubcommandLemmas
pub mod UnknownCommandLemmas
