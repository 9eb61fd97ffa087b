pub mod Content
pub mod Escapes
pub mod Literals
pub mod NoEscape
pub mod PiecesFrom
pub mod Room
