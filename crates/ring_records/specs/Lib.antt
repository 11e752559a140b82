pub mod Records
pub mod RecordRequests
pub mod NodeRecords
