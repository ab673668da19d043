mod Looking
mod Meaning
mod Saying
