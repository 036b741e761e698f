mod Feeding
mod Lists
mod SourceRuns
