pub mod FreeStep
