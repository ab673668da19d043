mod Acting
mod Expecting
mod Judged
mod Sums
mod Refused
