mod Progress
mod Promised
mod Played
