pub mod NodeOutputs
pub mod RecordNodes
pub mod Serving
pub mod BufferedNodeView
