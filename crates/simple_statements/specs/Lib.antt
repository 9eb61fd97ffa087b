-- SimpleStatements is the contract: what simple statements become; SimpleFaults are the rules that fail in them.
pub mod SimpleFaults
pub mod SimpleStatements
