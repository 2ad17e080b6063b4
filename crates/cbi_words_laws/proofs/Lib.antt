mod Reading
mod Joining
mod Moving
mod Commands
mod Bad
