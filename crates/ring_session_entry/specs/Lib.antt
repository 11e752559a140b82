pub mod LastCalls
