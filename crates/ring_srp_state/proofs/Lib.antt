-- UsersOfWindow: The user messages of a window, number by number.
-- DeferredMessages: One more number is deferred.
-- WrapsByNumber: The payloads of a visit in Recovery, number by number.
-- Rests: The outputs of the messages of some numbers are those of each of them.
-- OneVisitMore: One more visit as a fact: the mark of its ring, and the `aru` forwarded there.
-- QueueTaken: The first messages are taken off a queue one by one: the run at its front is measured, and its Calls
--   are moved.
pub mod UsersOfWindow
pub mod DeferredMessages
pub mod WrapsByNumber
pub mod Rests
pub mod OneVisitMore
pub mod QueueTaken
