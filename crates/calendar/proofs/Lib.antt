pub mod AcceptedDates
pub mod MonthNumbers
pub mod CompletingDay
pub mod CountedMonths
pub mod ShortMonths
pub mod CompletionDates
pub mod SignedMonths
