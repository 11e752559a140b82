-- Places: The place of one call in an order.
-- Checks: The checks hold exactly of an order that explains the history.
-- Indexes: An index has the places of an order's calls; a count for each client decides whether they are numbered.
-- Issues: The places of first issues, as the history grows by one item.
-- IssuedFronts: The first places whose calls were issued, and when an item is right by them.
pub mod Places
pub mod Checks
pub mod Indexes
pub mod Issues
pub mod IssuedFronts
