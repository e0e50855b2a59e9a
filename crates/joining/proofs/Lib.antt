mod Cuts
mod Sorting
mod ReadLines
mod Places
mod Sums
