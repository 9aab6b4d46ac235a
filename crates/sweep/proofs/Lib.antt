mod Marks
mod Lists
mod Closed
mod Cleared
mod Answers
