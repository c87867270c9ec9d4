pub mod AskedLines
pub mod Authors
pub mod SaidLines
