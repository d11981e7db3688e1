mod JsonKept
mod JsonNewlines
mod OneLines
mod TimeLines
mod TimeTexts
mod Unwritten
