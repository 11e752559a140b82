-- Drawn: Marks added one list after another are the marks of all lists.
-- Growth: Texts appended one after another.
pub mod Drawn
pub mod Growth
