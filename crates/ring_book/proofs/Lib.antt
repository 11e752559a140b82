-- NodeFrameLimits: A node stays within the limits of frames along its steps.
-- Stops: The cases in which a node's step is refused.
-- Journaling: A cell whose journal got one more step.
-- CellSteps: A cell after a step of its node, from the result of the step.
-- Entering: A step goes from a cell's journal to the book.
-- Looking: What the book finds at the end of a cell's ring.
-- Opened: An opening with one more node is an opening, and it gives a cell for each node and a book without lines.
pub mod NodeFrameLimits
pub mod Stops
pub mod Journaling
pub mod CellSteps
pub mod Entering
pub mod Looking
pub mod Opened
