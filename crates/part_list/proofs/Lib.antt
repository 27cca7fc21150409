-- What the number 0 says of an answer.
mod Judged
