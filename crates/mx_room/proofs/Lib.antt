pub mod HostedLemmas
pub mod JoinedLemmas
pub mod KeptLemmas
pub mod ListingLemmas
pub mod RoomsLemmas
pub mod StateLemmas
pub mod TextsLemmas
