-- What the public calls ensure, cited.
pub mod Cited
pub mod Laws
