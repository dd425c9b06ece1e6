-- What loops and private calls keep; no public clause cites it.
pub mod Giving
pub mod Lasting
pub mod Links
pub mod LocalPlay
pub mod Packed
pub mod Places
pub mod Taking
