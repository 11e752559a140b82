pub mod LiveResult
pub mod LiveClients
