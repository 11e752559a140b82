pub mod RefusingHeap
