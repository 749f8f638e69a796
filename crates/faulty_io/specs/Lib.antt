pub mod Devices
pub mod Trouble
