mod Answers
mod Passing
