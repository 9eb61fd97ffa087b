-- Chained joins lists of calls, and Listed says that they have what is called. Tallied counts numbers in lists, Batched says what
-- batches have of their components, and Ordered that they are the order.
pub mod Chained
pub mod Listed
pub mod Tallied
pub mod Batched
pub mod Ordered
