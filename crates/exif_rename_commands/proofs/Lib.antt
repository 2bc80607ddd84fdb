mod Comparing
mod Differing
mod Finding
mod Giving
mod Sidecars
mod Undoing
