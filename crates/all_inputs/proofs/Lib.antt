mod LineLists
mod Parts
mod Single
mod TextLines
