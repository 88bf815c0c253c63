pub mod Shares
pub mod Gauges
pub mod LineGauges
