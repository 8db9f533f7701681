pub mod Replicas
pub mod Refusals
pub mod Pendings
pub mod Clients
