mod Lasting
mod Running
mod Stepped
mod Shown
mod RunLaws
mod Asked
mod Taking
mod Phases
