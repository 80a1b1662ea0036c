pub mod Gossip
pub mod GossipLemmas
