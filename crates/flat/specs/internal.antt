-- What the code's own struct stands for. Contracts between functions and proofs cite it; no call for users does.
pub mod Stand
