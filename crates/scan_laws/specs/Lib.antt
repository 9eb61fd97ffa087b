-- Laws is the contract, and Forms has the forms of the language of which it speaks.
pub mod Forms
pub mod Laws
