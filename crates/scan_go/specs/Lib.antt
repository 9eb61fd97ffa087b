-- Scan is the contract: what `scan` answers. It speaks of the tokens with their positions (Lines), of the text cut into
-- pieces (Tokens), of the piece at the front of a text (Pieces), and of the printed numbers of faults (Faults). The other
-- modules are inside: each defines one class of pieces as the code finds it.
pub mod Spelling
pub mod Characters
pub mod Comments
pub mod Words
pub mod Operators
pub mod Numbers
pub mod Strings
pub mod Pieces
pub mod Tokens
pub mod Lines
pub mod TokenList
pub mod Scan
pub mod Faults
