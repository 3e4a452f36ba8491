-- Laws for the proofs of quay.
mod Chunks
