-- What holds of every write, and of DATA that ends its stream.
pub mod Laid
pub mod Alike
