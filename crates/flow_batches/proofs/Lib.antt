-- Listed says that the lists of calls have what is called, Ordered that the components are batches, and Formed and Stood that the
-- tests of a program tell what they test. Ends and There say that a whole graph has the locations that its edges go from and to.
pub mod Listed
pub mod Ordered
pub mod Formed
pub mod Stood
pub mod Ends
pub mod There
