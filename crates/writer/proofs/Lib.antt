-- Laws of the judged value and of the short form.
pub mod Judged
pub mod Short
