pub mod Alerts
pub mod SplitAlerts
pub mod Alarm
