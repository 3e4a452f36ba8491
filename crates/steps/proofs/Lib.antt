-- What the public functions ensure, cited; and the laws.
pub mod Cited
pub mod Laws
