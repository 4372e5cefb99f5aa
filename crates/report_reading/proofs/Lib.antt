pub mod FirstFault
pub mod ReportRead
pub mod WholeRead
