mod Lists
mod Requests
mod Replies
mod Entries
mod Leaves
mod Grid
mod Turns
mod Told
