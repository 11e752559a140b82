-- SessionsUnchanged: As long as a node restores nothing, the sessions after its committed places don't change, and neither does
--   the snapshot of the dropped ones.
-- SteadyEpochs: A life extended by outputs: the known log at each of them, from the known log before them.
-- Nodes: The due payloads and the step of a node, by its replica.
-- FirstDueSends: A node that has dropped nothing sends no snapshot, so its due payloads don't depend on the bytes that it stores.
-- SessionTableSteps: In a step the sessions, the calls done and the number of calls that took effect continue from before, or
--   from a restored snapshot.
-- Replicas: The stored values of a replica at the opening, after a ticket and at the end of a step; and what the replica reports.
-- ReplicaSteps: The effect of a step on the stored values, and its result: whether the replication continues or stops.
-- ReplicaStepEnds: The end of a step, in terms of the stored values: places are dropped, or none are; and what the replica
--   reports afterwards.
-- IdleReplicas: A core's step without outputs changes nothing of a replica without places due to be dropped, and has no result.
-- EpochMarks: The safe mark of a node's newest epoch and that of its core: no step reports a lower one.
-- Replications: Lemmas on replications, re-exported to the node.
pub mod SessionsUnchanged
pub mod SteadyEpochs
pub mod Nodes
pub mod FirstDueSends
pub mod SessionTableSteps
pub mod Replicas
pub mod ReplicaSteps
pub mod ReplicaStepEnds
pub mod IdleReplicas
pub mod EpochMarks
pub mod Replications
