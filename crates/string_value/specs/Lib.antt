-- StringValue and Laws are the contract. Digits and Pieces are inside: they define what digits give, and the piece at the front
-- of what is left.
pub mod Digits
pub mod Pieces
pub mod StringValue
pub mod Laws
