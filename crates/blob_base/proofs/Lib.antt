pub mod LowBits
