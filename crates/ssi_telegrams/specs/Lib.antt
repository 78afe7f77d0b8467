pub mod Telegram
